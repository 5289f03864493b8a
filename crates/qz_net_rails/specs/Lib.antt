pub mod NetRails
