pub mod Fronts
pub mod FrontsLaws
pub mod Pack
pub mod PackLaws
pub mod PackReady
pub mod PackReadyLaws
