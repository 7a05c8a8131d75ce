mod SendSteps
mod SenderSteps
pub mod Laws
