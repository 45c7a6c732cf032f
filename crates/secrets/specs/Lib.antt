pub mod Choice
pub mod Mix
pub mod Numbers
pub mod Secrets
