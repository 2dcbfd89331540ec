mod EndingLemmas
mod LineLemmas
mod CountLemmas
mod NumberLemmas
