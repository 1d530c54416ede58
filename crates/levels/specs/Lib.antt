-- Sets of bits, and levels, compared as whole words.
pub mod MaskLaws
