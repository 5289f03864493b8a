pub mod Instances
pub mod RoundLaws
