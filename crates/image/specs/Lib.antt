pub mod Pages
pub mod Prescribed
pub mod Origins
pub mod Plans
pub mod Spans
pub mod Stages
pub mod Examples
