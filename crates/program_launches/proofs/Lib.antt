mod Keeping
mod Declaring
