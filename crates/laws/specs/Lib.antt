-- Laws of the model's tests in the forms in which code meets them: branches, loops that stop at the first that decides, and arrays of zeros.
pub mod Bools
pub mod Loops
pub mod Lists
pub mod Ranges
