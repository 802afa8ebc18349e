mod After
mod Limits
mod NewProfiles
mod Within
