-- What the verifier keeps while it walks over a list of calls.
pub mod Flags
