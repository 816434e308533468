pub mod Effective
