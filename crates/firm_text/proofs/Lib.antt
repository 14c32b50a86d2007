pub mod PlaceLaws
pub mod SortedLaws
pub mod PrintLaws
pub mod TextVectors
