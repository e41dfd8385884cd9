mod Limits
mod Written
mod Endings
mod NoBreaches
mod Closings
mod Commands
