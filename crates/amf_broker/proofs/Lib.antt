pub mod Clients
mod Spreads
pub mod Refusals
pub mod Steps
pub mod Leavers
pub mod Law
mod Places
mod Orders
mod Sounds
mod Advances
mod Answered
pub mod Worked
mod Merges
mod Spans
mod Posts
mod Deals
mod Passes
mod Floors
mod Publishes
mod Polls
mod Waiters
mod Raises
mod Tallies
mod Stops
mod Seats
mod Firsts
mod Goes
mod Lined
mod Enlists
mod Published
mod Gone
mod Trims
mod Rounds
mod Noted
mod Slots
mod Among
mod Owners
mod Parts
mod Awake
