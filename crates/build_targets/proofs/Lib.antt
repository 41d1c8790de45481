mod DotSlash
mod ModuleNames
mod PathBytes
mod Standing
