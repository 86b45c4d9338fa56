-- One law a call: its promise and a history give the next history.
pub mod Rows
