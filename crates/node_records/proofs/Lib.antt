pub mod KidLaws
pub mod Stack
pub mod DraftLaws
pub mod JoinLaws
