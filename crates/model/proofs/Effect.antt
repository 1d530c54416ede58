-- That the notice, the effects on places and those on screens keep tables well-formed and secure.
pub mod NoticeLaws
pub mod ScreensLaws
pub mod PlacesLaws
