mod Apart
mod Folders
mod Names
