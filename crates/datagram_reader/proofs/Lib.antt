mod ReadSteps
mod ReadTurn
mod ReadWhole
