pub mod EnrolledLemmas
