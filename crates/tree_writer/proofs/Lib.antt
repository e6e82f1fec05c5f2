pub mod Appending
pub mod AttributeTexts
pub mod Long
pub mod NodeTexts
pub mod OneText
pub mod RawTexts
pub mod Steps
