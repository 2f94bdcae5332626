pub mod SomeCallLemmas
