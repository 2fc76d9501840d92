pub mod Format
pub mod Reading
pub mod Drafts
pub mod Laying
