pub mod Digits
pub mod Fields
pub mod Forms
pub mod LineNumbers
pub mod Named
pub mod ReadBack
