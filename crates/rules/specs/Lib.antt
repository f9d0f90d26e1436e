-- What a rule asked by its number answers.
pub mod Numbered
