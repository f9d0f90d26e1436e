-- What is asked of buckets in slots before they are drawn.
pub mod Drawable
