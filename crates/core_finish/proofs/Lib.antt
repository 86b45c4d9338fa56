-- Laws of finish and its list.
pub mod Lists
pub mod Restful
pub mod Finish
pub mod Agree
