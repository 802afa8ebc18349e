mod AtHome
mod OwnRows
