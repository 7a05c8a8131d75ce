mod RangeSteps
mod KeepSteps
mod Walk
mod MessageSteps
mod ItemSteps
mod ItemsSteps
mod NextSteps
