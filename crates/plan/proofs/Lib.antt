pub mod OffsetLaws
pub mod StartLaws
pub mod PlaceLaws
pub mod ParseLaws
