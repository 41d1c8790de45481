mod FetchedRocks
pub mod Keeping
mod Listed
pub mod OneFetched
mod Servers
mod Serving
