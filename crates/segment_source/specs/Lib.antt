pub mod Pieces
pub mod PiecesLaws
pub mod Segment
pub mod Cut
pub mod StepLaws
