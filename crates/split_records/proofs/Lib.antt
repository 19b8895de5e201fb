pub mod LoopLaws
pub mod SplitLaws
pub mod Among
