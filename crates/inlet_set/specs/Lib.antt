pub mod InletSet
pub mod SetLaws
pub mod Insert
pub mod InsertLaws
pub mod Pop
pub mod CountLaws
