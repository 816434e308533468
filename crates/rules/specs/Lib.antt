pub mod Kind
pub mod Right
pub mod Entry
pub mod Address
pub mod Test
