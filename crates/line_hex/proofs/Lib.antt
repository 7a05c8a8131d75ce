mod Digits
mod HexSteps
mod NearSteps
