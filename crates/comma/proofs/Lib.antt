pub mod CardLaws
pub mod StageLaws
pub mod StrictLaws
