pub mod RoundNumbers
pub mod DefiniteSame
