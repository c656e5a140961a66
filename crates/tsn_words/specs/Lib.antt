pub mod Grammar
pub mod Table
