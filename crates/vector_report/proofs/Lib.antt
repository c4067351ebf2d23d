mod Reported
mod Shorter
