-- Laws of the sleep scan: begin, observe.
pub mod Change
pub mod Lists
pub mod Forget
pub mod Keep
pub mod Observe
