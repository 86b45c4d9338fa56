-- Laws that more than one proof cites.
pub mod Decimal
pub mod Laws
pub mod Mark
