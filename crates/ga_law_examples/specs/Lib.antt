pub mod Spinning
pub mod Firmware
pub mod Pieces
pub mod Races
pub mod Waveforms
pub mod inner
