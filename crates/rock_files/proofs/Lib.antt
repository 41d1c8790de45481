mod Asking
mod Failing
mod Sorting
mod Steps
