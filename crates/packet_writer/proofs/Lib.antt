mod Values
mod Measure
mod Sizing
mod Putting
mod PutItems
mod PutFields
mod WritePacket
