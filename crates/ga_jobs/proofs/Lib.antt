mod OneAnswer
mod Limit
mod FileAnswers
