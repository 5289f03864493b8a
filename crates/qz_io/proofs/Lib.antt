pub mod EntriesLemmas
