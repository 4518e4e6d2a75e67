mod OneReading
mod Taking
mod WorkedFrames
