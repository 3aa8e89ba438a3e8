pub mod CutLemmas
pub mod SegmentLemmas
pub mod SizeLemmas
