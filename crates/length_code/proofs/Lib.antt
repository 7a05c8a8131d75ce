mod ReaderSteps
mod WriterSteps
