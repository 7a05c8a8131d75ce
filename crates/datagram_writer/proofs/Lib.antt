mod Copying
mod PutSteps
mod ItemSteps
mod ItemsSizeSteps
mod WriteTests
mod SizeSteps
mod WriteSteps
