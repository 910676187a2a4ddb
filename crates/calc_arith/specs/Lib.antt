pub mod Operate
