pub mod Inking
