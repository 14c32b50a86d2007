mod Growing
mod Unread
