pub mod Portless
