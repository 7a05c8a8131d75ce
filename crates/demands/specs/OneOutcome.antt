-- For each call, two outcomes that its promise allows are equal (rule 28.14). OneOutcome/OneOutcome.antt joins them into one claim.
pub mod OneTold
pub mod OnePencil
pub mod OneInside
pub mod OneOutcome
