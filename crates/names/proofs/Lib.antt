mod CutLemmas
mod NameExamples
mod OrderLemmas
mod PathExamples
mod PathLemmas
